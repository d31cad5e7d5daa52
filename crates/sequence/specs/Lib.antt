pub mod Bounds
pub mod Placing
pub mod Numbers

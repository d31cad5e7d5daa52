pub mod Several
pub mod Fits
pub mod Calls
pub mod Resumed

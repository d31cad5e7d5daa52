pub mod Shapes
pub mod Numbers
pub mod Forms
pub mod Taking

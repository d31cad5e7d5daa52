pub mod Line
pub mod Taking

pub mod Cut
pub mod Line
pub mod Number
pub mod Told

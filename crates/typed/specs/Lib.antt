pub mod Number
pub mod Words

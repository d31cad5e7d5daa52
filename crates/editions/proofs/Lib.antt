pub mod Glances
pub mod Last
pub mod One
pub mod Rooms
pub mod Two
pub mod Unique
pub mod Whole

pub mod Kept
pub mod Room

pub mod Ends
pub mod Pauses

pub mod Editions
pub mod Moves
pub mod Told

pub mod Halt
pub mod State
pub mod Lent
pub mod Jumps
pub mod Asked

pub mod Heads
pub mod Stands
pub mod Sums
pub mod Laid
pub mod Wholes
pub mod Puts

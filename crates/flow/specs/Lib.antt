pub mod Move
pub mod Walk
pub mod Masks

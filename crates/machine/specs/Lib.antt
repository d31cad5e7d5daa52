pub mod Step
pub mod Kept

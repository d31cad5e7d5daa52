pub mod Parts
pub mod Back

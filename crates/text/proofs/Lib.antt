pub mod Bools
pub mod Alike
pub mod Below
pub mod Cuts
pub mod Decimals
pub mod Numbers
pub mod Rows
pub mod Back

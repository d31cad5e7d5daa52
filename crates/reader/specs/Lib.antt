pub mod Reading
pub mod Masks

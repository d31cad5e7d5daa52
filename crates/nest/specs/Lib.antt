pub mod Block
pub mod Fair
pub mod Layout

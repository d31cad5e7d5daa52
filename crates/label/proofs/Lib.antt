pub mod Firsts
pub mod Packed
pub mod Seeks
pub mod Shapes

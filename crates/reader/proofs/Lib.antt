pub mod Below
pub mod Masks
pub mod Strays
pub mod Laws
pub mod Coarse
pub mod Alike

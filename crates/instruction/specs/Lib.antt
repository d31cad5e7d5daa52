pub mod Bits
pub mod Table
pub mod Rules
pub mod Form
pub mod Word

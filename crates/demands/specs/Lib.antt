pub mod Word
pub mod Bit
pub mod Run
pub mod Check
pub mod Worked
pub mod Answers
pub mod Listing
pub mod Firmware

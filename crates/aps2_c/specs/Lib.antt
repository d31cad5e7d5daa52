pub mod Firmware
pub mod Fields
pub mod Answer
pub mod Calls

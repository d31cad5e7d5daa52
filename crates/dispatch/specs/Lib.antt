pub mod Engines
pub mod Counting
pub mod Trace

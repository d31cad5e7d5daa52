pub mod Sound
pub mod Lines
pub mod Goes
pub mod Steps
pub mod Runs
pub mod Walks
pub mod Played
pub mod Worked

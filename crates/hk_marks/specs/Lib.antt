pub mod Seen
pub mod Steps
pub mod Parts
pub mod Told

pub mod Messages
pub mod Limits
pub mod Kinds

pub mod Fields
pub mod Framing

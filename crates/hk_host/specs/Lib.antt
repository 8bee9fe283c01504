pub mod Faults
pub mod Pins
pub mod Serving

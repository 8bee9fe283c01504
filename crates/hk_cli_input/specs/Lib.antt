pub mod Taking
pub mod Lines
pub mod Items
pub mod Stops
pub mod Sums

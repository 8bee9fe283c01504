pub mod Absorbing
pub mod Scripts
pub mod Statuses

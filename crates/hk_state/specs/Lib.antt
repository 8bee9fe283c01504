pub mod Calls
pub mod Changes
pub mod Items
pub mod Replica
pub mod Touched

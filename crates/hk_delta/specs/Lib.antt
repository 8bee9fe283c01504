pub mod Agreeing
pub mod Cuts
pub mod Gathers
pub mod Joins
pub mod Repeats
pub mod Unions
pub mod Versions

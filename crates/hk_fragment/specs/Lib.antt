pub mod Parts
pub mod Merging
pub mod Heads
pub mod Assemblies

-- Runs of a world.
pub mod Worlds
pub mod Runs

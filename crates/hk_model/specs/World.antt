-- Worlds of a primary and its replicas.
pub mod Worlds
pub mod Events

pub mod Readers
pub mod Queries
pub mod Refusals
pub mod Answers
pub mod Told
pub mod Metrics
pub mod Pieces

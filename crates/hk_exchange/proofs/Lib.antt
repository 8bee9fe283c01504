pub mod Moved
pub mod Parts
pub mod Pieces
pub mod Saying
pub mod Standing

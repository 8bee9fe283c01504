pub mod Book
pub mod Published
pub mod Changes
pub mod Guarded
pub mod Taken

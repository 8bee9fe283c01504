pub mod Encoding
pub mod Lists
pub mod Kept
pub mod Reading
pub mod Frames
pub mod Outlines
pub mod Rewriting

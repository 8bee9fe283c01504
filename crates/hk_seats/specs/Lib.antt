pub mod Replying
pub mod Serving
pub mod Showing
pub mod Telling
pub mod Ways

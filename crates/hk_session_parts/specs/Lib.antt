pub mod Endings
pub mod Said
pub mod Transcript
pub mod Sessions
pub mod Serving
pub mod Values

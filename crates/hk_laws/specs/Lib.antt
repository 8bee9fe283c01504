pub mod Running
pub mod Calls
pub mod Among
pub mod Runs
pub mod Codes

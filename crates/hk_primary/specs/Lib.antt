pub mod Calls
pub mod Log
pub mod Looks
pub mod Txns
pub mod Verdicts

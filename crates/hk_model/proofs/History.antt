-- What histories and their logs tell.
pub mod Logs
pub mod Complete
pub mod Writes
pub mod Histories
pub mod Honest
pub mod Commits
pub mod Formed

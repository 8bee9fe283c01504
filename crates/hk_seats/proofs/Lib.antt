mod JoinRequests
mod Seen
mod ChangeReplies
pub mod WaitingChanges
pub mod GoingOn

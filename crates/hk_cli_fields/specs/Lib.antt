pub mod Metrics
pub mod LaterReplies
pub mod Lines
pub mod Replies

pub mod LaterRequests
pub mod Requests
pub mod LaterReplies
pub mod Replies
pub mod Doing

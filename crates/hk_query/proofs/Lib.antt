pub mod Newest
pub mod OfPrimary
pub mod PageAtTime
pub mod ReplyAtTime
mod JoinedPages

pub mod ChangeReplies

pub mod ReplyPieces

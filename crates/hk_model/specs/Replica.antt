-- What a replica does: what it knows of each stream, its content, what items and fragments make of it, what it replies.
pub mod Maps
pub mod Items
pub mod Streams
pub mod Content
pub mod ContentOf
pub mod Rules
pub mod Fragments
pub mod Codes
pub mod Answers
pub mod Pages
pub mod StreamsTold
pub mod Replicas
pub mod Lawful
pub mod Past
pub mod Touches

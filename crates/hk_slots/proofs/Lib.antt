pub mod ChangedSlots
pub mod CopiedSlots
pub mod FoundSlots
pub mod Listed
pub mod Matched
pub mod SeenSlots
pub mod Tied

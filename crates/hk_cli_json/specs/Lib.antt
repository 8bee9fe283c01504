pub mod Answers
pub mod Fields
pub mod Fragments
pub mod Items
pub mod Reading
pub mod Refusals
pub mod Statuses
pub mod Metrics

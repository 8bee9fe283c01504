mod WholeGiven
mod LettingGo
mod LastSet
pub mod Seen

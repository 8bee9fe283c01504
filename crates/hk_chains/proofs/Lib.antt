pub mod RowsBetween
pub mod StoredFacts
pub mod ChangedChains
pub mod FactsByRow
pub mod FilledPages
pub mod SweptChains
mod NewFacts
pub mod SoughtVersions
pub mod Indexed
pub mod ChainsAtTime
pub mod CountedRows
pub mod PutChains
pub mod WalkedRows
pub mod TaggedRows
pub mod TaggedVersions
pub mod WalkedChains

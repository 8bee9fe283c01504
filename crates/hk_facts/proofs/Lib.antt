pub mod StoredTrees
mod ListedVersions
pub mod LastOfList
pub mod DroppedEnds
pub mod ForgottenParts
pub mod CopiedTrees
pub mod LatestVersion
pub mod ShownRow
pub mod PartedChains
mod NextBorn
mod VersionsInTurn

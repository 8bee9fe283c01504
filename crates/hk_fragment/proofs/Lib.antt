pub mod ListedVersions
pub mod FoundVersions
pub mod FragmentRules
pub mod MergedLists
pub mod BinarySearch
pub mod UnionOfFragments
pub mod RisingParts
pub mod LoweredFragments

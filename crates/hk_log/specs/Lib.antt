pub mod Items
pub mod SameItems
pub mod SameVersions
pub mod StoredVersions
pub mod Versions

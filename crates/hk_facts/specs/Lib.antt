pub mod Facts
pub mod Chains
pub mod Listed
pub mod Forms
pub mod Parted
pub mod Turns

pub mod Passing
pub mod Handing
pub mod HandingLaws

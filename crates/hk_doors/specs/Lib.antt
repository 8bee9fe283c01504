pub mod Doors
pub mod Handing

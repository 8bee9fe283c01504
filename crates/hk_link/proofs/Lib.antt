mod LinkHolds
pub mod BothSeen
mod SharedHosts
mod Marks

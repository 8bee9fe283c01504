pub mod Exchanges
pub mod Pipes

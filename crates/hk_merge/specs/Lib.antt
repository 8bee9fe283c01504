pub mod Calls
pub mod Growing
pub mod Late
pub mod Plans
pub mod Sent

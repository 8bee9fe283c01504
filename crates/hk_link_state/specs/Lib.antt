pub mod NodeNumbers
pub mod NodeSides
pub mod LinkStates
pub mod LaterReplying
pub mod GivenWhole

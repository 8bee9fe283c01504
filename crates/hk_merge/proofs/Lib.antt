pub mod GrowingLists
pub mod ListedChange
pub mod WorkedOutChange
pub mod RisingHorizon
pub mod LevelJoin
pub mod JoinRefusals
pub mod LateFacts

pub mod StoredRows
pub mod Values
pub mod Numbers
pub mod FaultNumbers
pub mod SameRows
pub mod Orders
pub mod OrMemory

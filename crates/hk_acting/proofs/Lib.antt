pub mod OutOfMemory

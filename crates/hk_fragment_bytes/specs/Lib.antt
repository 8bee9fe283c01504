pub mod Fragments
pub mod FragmentSteps
pub mod Parts

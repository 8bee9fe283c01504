mod Took
mod LineSteps
mod ItemSteps

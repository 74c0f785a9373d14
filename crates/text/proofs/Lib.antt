pub mod Bools
pub mod Ranges
pub mod Runs
pub mod Blocks
pub mod Shape
pub mod Ended
pub mod Parts

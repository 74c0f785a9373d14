pub mod Bytes
pub mod Runs
pub mod Blocks
pub mod Limits
pub mod Parts

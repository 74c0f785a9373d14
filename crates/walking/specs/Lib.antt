pub mod Writing
pub mod Walk

pub mod Blocks
pub mod Told

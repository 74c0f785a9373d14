pub mod Nexts
pub mod Prefix
pub mod Rest
pub mod Frames
pub mod Block
pub mod Answers

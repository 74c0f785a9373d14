pub mod Gaps
pub mod Shape
pub mod Starts
pub mod Bare

pub mod Comparing
pub mod Steps

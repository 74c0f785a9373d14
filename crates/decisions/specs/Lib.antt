pub mod Decisions
pub mod Onward

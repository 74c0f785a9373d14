pub mod Plain
pub mod Needed

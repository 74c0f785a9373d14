pub mod Ends
pub mod Lines

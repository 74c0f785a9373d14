pub mod Turned
pub mod Twins

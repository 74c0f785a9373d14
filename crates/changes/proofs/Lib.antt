pub mod Orderly
pub mod Changes

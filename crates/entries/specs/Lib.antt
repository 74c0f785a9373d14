pub mod Entries
pub mod Walk

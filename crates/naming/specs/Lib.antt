pub mod Names
pub mod Search

pub mod Changes
pub mod Steps

pub mod Runs
pub mod Lexing
pub mod Taken
pub mod Sources
pub mod Written
pub mod Told
pub mod Reading
pub mod Refusals

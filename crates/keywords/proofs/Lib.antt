pub mod Keywords
pub mod Shape
pub mod Ended
pub mod Starts
pub mod Letters

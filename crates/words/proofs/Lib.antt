pub mod Words
pub mod Shape
pub mod Ended

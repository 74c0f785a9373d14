pub mod Quotes
pub mod Strict
pub mod Shape
pub mod Ended
pub mod Content

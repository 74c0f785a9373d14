pub mod Quotes
pub mod Answers
pub mod Content

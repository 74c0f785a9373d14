pub mod Numbering
pub mod Choices
pub mod Marks

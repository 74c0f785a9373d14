pub mod Packing
pub mod Choices

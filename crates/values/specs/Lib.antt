pub mod Values
pub mod Answers
pub mod Finding
pub mod Alone

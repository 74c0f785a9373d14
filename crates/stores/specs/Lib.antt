pub mod Soundness
pub mod Content
pub mod Records

pub mod Putting
pub mod Forms

pub mod Wrote
pub mod Digits

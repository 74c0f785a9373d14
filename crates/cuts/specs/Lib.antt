pub mod Digits
pub mod Cuts

pub mod Readings
pub mod Samples

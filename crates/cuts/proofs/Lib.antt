pub mod DigitRuns
pub mod Bounds

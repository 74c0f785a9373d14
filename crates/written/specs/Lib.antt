pub mod Results
pub mod Sayings

pub mod Plain
pub mod Unscaled
pub mod Words

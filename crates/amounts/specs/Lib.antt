pub mod Exact
pub mod Sizes

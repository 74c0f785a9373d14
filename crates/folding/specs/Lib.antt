pub mod Folding
pub mod Pairs

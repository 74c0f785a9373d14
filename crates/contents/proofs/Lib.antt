pub mod Contents
pub mod Kept

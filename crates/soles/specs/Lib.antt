pub mod Members
pub mod Singular

pub mod Numerics
pub mod NumbersRead

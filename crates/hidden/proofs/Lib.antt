pub mod Places
pub mod ShapeTokens
pub mod Veil
pub mod VeilRead
pub mod Swaps
pub mod Kept
pub mod Demand3
pub mod Outlined

pub mod Laws
pub mod Kept
pub mod Total
pub mod Examples

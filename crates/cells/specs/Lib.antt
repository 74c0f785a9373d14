pub mod Cells
pub mod Walk
pub mod Sides

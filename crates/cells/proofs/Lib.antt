pub mod Offsets
pub mod Cells

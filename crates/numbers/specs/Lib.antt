pub mod Parts
pub mod Meaning
pub mod Spelling
pub mod Cif
pub mod Pieces

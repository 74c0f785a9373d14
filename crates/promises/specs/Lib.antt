pub mod Exported
pub mod Compared

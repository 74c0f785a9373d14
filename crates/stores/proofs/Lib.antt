pub mod Filling
pub mod Looking
pub mod Records
pub mod Numbered

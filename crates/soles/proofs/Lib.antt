pub mod Fresh
pub mod Leads
pub mod Soles
pub mod Meeting
pub mod Columns
pub mod Singular

pub mod Examples
pub mod OneOutcome
pub mod Exported
pub mod Classes
pub mod Compared

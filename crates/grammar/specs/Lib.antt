pub mod Causes
pub mod Tokens
pub mod Machine
pub mod Reading
pub mod Descent

pub mod Tokens
pub mod Readable

pub mod Copy
pub mod Forms
pub mod Bytes
pub mod Places
pub mod Lines
pub mod Numbers
pub mod Ones

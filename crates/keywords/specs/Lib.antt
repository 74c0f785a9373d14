pub mod Keywords

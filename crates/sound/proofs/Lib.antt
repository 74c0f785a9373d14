pub mod Again
pub mod Columns
pub mod Strict
pub mod Contents
pub mod Walks
pub mod ReadIsSound

pub mod Wanted
pub mod Lists
pub mod Passes
pub mod Items

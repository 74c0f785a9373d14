pub mod Lists
pub mod Same
pub mod Numbers
pub mod Order

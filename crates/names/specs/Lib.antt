pub mod Names
pub mod Order
pub mod Numbers
pub mod Parts

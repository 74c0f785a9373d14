pub mod Wholes
pub mod Offsets
pub mod Entering
pub mod Back
pub mod Walking

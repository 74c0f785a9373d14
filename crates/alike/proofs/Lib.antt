pub mod Moves
pub mod Keys
pub mod Tokens
pub mod Simulation
pub mod Equal
pub mod Needed

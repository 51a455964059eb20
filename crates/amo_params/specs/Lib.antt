pub mod Limits
pub mod Givens
pub mod Moves

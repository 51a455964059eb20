-- Lemmas of `amo_restart`, by subject. Folders have the proofs of functions, by module.
pub mod Kept
pub mod Tales
pub mod Counts
pub mod Once
pub mod Words
pub mod Moves
pub mod Filed

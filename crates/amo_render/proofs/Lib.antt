-- Lemmas of `amo_render`, by subject. Folders have the proofs of functions, by module.
pub mod Counted
pub mod Marks
pub mod Blocks
pub mod Whole
pub mod Least
pub mod OfBytes

-- Lemmas of `amo_sets`, by subject. Folders have the proofs of functions, by module.
pub mod Bytes
pub mod Full
pub mod Numbers
pub mod Ranks
pub mod Removed
pub mod Sets
pub mod Shown
pub mod Tables
pub mod Tally
pub mod Without
pub mod Words

-- Lemmas of `amo_c`, by subject. Folders have the proofs of functions, by module.
pub mod Tells
pub mod Batches

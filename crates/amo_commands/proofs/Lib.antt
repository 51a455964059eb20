-- Lemmas of `amo_commands`, by subject. Folders have the proofs of functions, by module.
pub mod Endings

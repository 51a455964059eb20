-- Lemmas of `amo_cli`, by subject. Folders have the proofs of functions, by module.
pub mod Endings

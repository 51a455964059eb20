-- Lemmas of `amo_args`, by subject. Folders have the proofs of functions, by module.
pub mod Numbers
pub mod Lines

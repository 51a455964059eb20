-- Lemmas of `amo_params`, by subject. Folders have the proofs of functions, by module.
pub mod Faults

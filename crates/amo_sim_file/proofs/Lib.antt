-- Lemmas of `amo_sim_file`, by subject. Folders have the proofs of functions, by module.
pub mod Fronts

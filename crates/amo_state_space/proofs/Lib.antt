-- Lemmas of `amo_state_space`, by subject. Folders have the proofs of functions, by module.
mod Left
mod Paths
mod Way
mod ReadTurns

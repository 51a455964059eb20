-- Lemmas of `amo_crew`, by subject. Folders have the proofs of functions, by module.
pub mod Runs
pub mod Collects
pub mod Crews
pub mod Hires
pub mod Backs
pub mod Starts
pub mod Few
pub mod Large
pub mod Outputs
pub mod Zips
pub mod Fitted
pub mod Once
pub mod Told
pub mod Places

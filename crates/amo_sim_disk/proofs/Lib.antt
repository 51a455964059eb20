-- Lemmas of `amo_sim_disk`, by subject. Folders have the proofs of functions, by module.
pub mod Bytes
pub mod Ends
pub mod Noting
pub mod Possible
pub mod Torn

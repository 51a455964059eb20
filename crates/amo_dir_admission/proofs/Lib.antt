-- Lemmas of `amo_dir_admission`, by subject. Folders have the proofs of functions, by module.
pub mod Checks
pub mod Entering
pub mod Journals
pub mod Known
pub mod Quiet
pub mod Steps

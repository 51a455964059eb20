-- Lemmas of `amo_fs`, by subject. Folders have the proofs of functions, by module.
mod Kept
pub mod First
pub mod Lines
pub mod Refused

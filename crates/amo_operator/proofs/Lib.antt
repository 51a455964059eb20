-- Lemmas of `amo_operator`, by subject. Folders have the proofs of functions, by module.
pub mod Knowledge
pub mod Lines
pub mod Placing
pub mod Setting
pub mod Steps
pub mod Unreadable
pub mod Workers

-- Lemmas of `amo_report`, by subject. Folders have the proofs of functions, by module.
pub mod Rounds
pub mod Explored
pub mod ReachedWorlds
pub mod Stopped
pub mod RunOut

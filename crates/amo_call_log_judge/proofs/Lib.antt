-- Lemmas of `amo_call_log_judge`, by subject. Folders have the proofs of functions, by module.
pub mod Found
pub mod Logs
pub mod Outcomes
pub mod Places
pub mod Reasons
pub mod Refuted
pub mod Runs
pub mod Steps
pub mod Told
pub mod Words

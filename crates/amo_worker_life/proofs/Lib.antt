-- Lemmas of `amo_worker_life`, by subject. Folders have the proofs of functions, by module.
pub mod AllLogs
pub mod Begins
pub mod Clearing
pub mod Ends
pub mod Serials
pub mod Unreadable

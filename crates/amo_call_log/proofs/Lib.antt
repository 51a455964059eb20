-- Lemmas of `amo_call_log`, by subject. Folders have the proofs of functions, by module.
pub mod LineFeeds
pub mod Readable
pub mod Refusals
pub mod Attempts

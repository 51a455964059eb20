-- Lemmas of `amo_mailbox`, by subject. Folders have the proofs of functions, by module.
pub mod Lists
pub mod Passes
pub mod Gathers
pub mod Ended

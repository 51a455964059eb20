-- Lemmas of `amo_worker_args`, by subject. Folders have the proofs of functions, by module.
pub mod Answers

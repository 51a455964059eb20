-- Lemmas of `amo_run_views`, by subject. Folders have the proofs of functions, by module.
mod Intents
mod Lines

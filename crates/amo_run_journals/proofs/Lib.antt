-- Lemmas of `amo_run_journals`, by subject. Folders have the proofs of functions, by module.
mod Extents

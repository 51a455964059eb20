-- Lemmas of `amo_safety_by_journals`, by subject. Folders have the proofs of functions, by module.
mod Safe
mod Twice

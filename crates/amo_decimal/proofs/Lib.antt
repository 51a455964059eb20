-- Lemmas of `amo_decimal`, by subject. Folders have the proofs of functions, by module.
pub mod NumberTexts

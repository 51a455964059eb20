-- Lemmas of `amo_worst_case`, by subject. Folders have the proofs of functions, by module.
mod Lengths
-- crates above lean on this one too
pub mod ReadWords
mod TreeTexts
mod ReadPlan

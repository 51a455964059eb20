-- Lemmas of `amo_run_plan`, by subject. Folders have the proofs of functions, by module.
pub mod Claims
pub mod Noting
pub mod DoneSets
pub mod Fates
pub mod Budgets
pub mod Answered
pub mod RunTexts

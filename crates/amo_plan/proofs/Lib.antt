-- Lemmas of `amo_plan`, by subject. Folders have the proofs of functions, by module.
pub mod PassingLemmas
pub mod DigitsLemmas
pub mod TreeLemmas
pub mod MovesLemmas
pub mod PlanLemmas
pub mod NamesLemmas
pub mod WithinLemmas
pub mod FineLemmas
pub mod BlocksLemmas
pub mod KeepsLemmas

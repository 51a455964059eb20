-- Lemmas of `amo_example_payments`, by subject. Folders have the proofs of functions, by module.
pub mod Filters
pub mod Sorts
pub mod Stops
pub mod RoundLemmas
pub mod Numbers
pub mod Seconds
pub mod Fronts
pub mod Ledgers
pub mod Floors
pub mod DayLemmas
pub mod HasLines
pub mod Tellings
pub mod DayReports

-- Lemmas of `amo_judge`, by subject. Folders have the proofs of functions, by module.
pub mod Begins
pub mod Found
pub mod NextLine
pub mod Order
pub mod Searches
pub mod Texts
pub mod Told

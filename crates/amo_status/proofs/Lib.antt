-- Lemmas of `amo_status`, by subject. Folders have the proofs of functions, by module.
pub mod ByIntent
pub mod Closers
pub mod JsonTexts
pub mod Noting
pub mod OneKind
pub mod Opened
pub mod Quiets
pub mod RowSteps
pub mod SaidTexts
pub mod Settling
pub mod Taken

-- Lemmas of `amo_journal`, by subject. Folders have the proofs of functions, by module.
mod Blocks
mod Chains
mod Ending
mod Following
mod Kept
mod Moments
mod Opening
mod Parts
mod Places
mod Putting
mod Results
mod Splits
mod Undamaged
mod Whole
pub mod Checksums
pub mod Logs
pub mod Journaling

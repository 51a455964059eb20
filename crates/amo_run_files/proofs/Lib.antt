-- Lemmas of `amo_run_files`, by subject. Folders have the proofs of functions, by module.
pub mod Again
pub mod Counts
pub mod Cuts
pub mod Differences
pub mod Ends
pub mod ExtentTexts
pub mod HeadLaws
pub mod Heads
pub mod KeptCounts
pub mod KeptJobs
pub mod KnownLines
pub mod RecordTexts
pub mod Records
pub mod Refusals
pub mod RoundFileTexts
pub mod SeatLaws

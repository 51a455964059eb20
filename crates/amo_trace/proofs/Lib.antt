-- Lemmas of `amo_trace`, by subject. Folders have the proofs of functions, by module.
mod Gone
mod Range
mod Attempts
mod Meetings

-- Lemmas of `amo_runner_protocol`, by subject. Folders have the proofs of functions, by module.
pub mod ReplyTexts
pub mod SayingTexts

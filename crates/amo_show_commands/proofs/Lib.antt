-- Lemmas of `amo_show_commands`, by subject. Folders have the proofs of functions, by module.
mod Endings

-- Lemmas of `amo_hello`, by subject. Folders have the proofs of functions, by module.
mod Orders

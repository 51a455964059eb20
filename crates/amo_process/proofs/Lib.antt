-- The crates above lean on these too:
pub mod Hearing
pub mod Stepped
pub mod Told
pub mod Accesses
pub mod Batches
pub mod Within
-- Only this crate uses these files.
mod Coming
mod Beginning
mod Performs
mod Together
mod Opening
mod Others
mod Passes
mod Batched
mod Stores
mod Ends
mod Short
mod Filings

-- The crates above lean on this too:
pub mod Resting
-- Only this crate uses these files.
mod Places
mod Turning
mod Opening
mod Verdicts
mod Unclaimed

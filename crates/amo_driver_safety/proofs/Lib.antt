-- The crates above lean on these too:
pub mod Stages
pub mod Claims
pub mod Spent
pub mod Histories
pub mod Intents
pub mod Once
pub mod Courses
pub mod Logs
pub mod Chains
-- For this crate alone:
mod Example
mod Handed
mod Found
mod Farewell

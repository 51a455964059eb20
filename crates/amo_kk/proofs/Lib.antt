-- The crates above lean on these too. Worlds and runs:
pub mod Worlds
pub mod OpenWords
pub mod Kept
pub mod Runs
pub mod Steps
pub mod Claims
pub mod Counts
pub mod Room
pub mod Shows
pub mod Ends
pub mod RowSums
-- what a step and a move do:
pub mod Choice
pub mod FirstChoice
pub mod Fit
pub mod Holding
pub mod Wants
pub mod Loads
pub mod Growth
pub mod Moves
pub mod OwnTurns
pub mod Words
pub mod Bits
pub mod Again
-- a worker alone:
pub mod Alone
pub mod Attempts
-- Only this crate uses these files.
mod AttemptReads
mod LoneTurns
mod OpenJobs
mod Worked

pub mod Model
pub mod Runs

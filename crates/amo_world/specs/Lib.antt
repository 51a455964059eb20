pub mod Answer
pub mod Views
pub mod Processes
pub mod Resting

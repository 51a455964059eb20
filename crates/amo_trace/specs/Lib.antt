pub mod Transitions
pub mod Trace
pub mod Attempts

pub mod Schedule
pub mod Text
pub mod Tree
pub mod Answer

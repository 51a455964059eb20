pub mod Calls
pub mod Halting
pub mod Judging
pub mod Knowing
pub mod Phase
pub mod Protocol
pub mod Reports
pub mod Views

pub mod Report
pub mod Check
pub mod Texts
pub mod Summary
pub mod Explorer
pub mod Reached
pub mod Stops
pub mod Wanted

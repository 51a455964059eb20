pub mod Texts
pub mod World
pub mod Runs
pub mod Machine
pub mod Steps
pub mod Lists
pub mod Finality
pub mod Without

pub mod Fewest
pub mod Rest
pub mod Turns
pub mod Worst

pub mod Id
pub mod Names
pub mod Statuses

pub mod Extents
pub mod Logs
pub mod Owed

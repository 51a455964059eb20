pub mod Handles
pub mod Local
pub mod Mounts
pub mod Options
pub mod Parts

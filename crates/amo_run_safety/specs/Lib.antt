pub mod File
pub mod Site
pub mod Run
pub mod Asked
pub mod Shown
pub mod Commands
pub mod Fewer

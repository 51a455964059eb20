pub mod Known
pub mod Modes
pub mod Trying

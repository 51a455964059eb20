pub mod Words
pub mod Shows
pub mod Shown

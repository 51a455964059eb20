pub mod Stage
pub mod Course
pub mod Standing
pub mod Stops
pub mod Life

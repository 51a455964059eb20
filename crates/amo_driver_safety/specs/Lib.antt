pub mod Scene
pub mod Log
pub mod Course
pub mod Tries

pub mod Begin
pub mod Halting
pub mod Join
pub mod Where
pub mod Reading

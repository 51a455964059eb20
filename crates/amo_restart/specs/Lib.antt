pub mod Return
pub mod Story

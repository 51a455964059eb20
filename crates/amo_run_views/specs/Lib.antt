pub mod Named
pub mod Wrong

pub mod Heard
pub mod Stepped
pub mod Stage
pub mod Shared
pub mod Batch
pub mod Batched

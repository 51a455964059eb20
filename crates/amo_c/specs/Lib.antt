pub mod Codes
pub mod Told
pub mod Reply
pub mod Batch
pub mod Carried

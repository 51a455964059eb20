pub mod Calls
pub mod Files
pub mod Halting
pub mod Names
pub mod Phase
pub mod Protocol
pub mod Rules
pub mod Versions

pub mod Calls
pub mod Disk
pub mod Moments
pub mod Replay
pub mod Tearing

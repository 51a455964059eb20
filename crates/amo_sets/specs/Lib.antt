pub mod Lists
pub mod Sets
pub mod Rank
pub mod Bits

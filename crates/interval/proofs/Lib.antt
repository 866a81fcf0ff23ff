pub mod Literals
pub mod Between
pub mod Wraps
pub mod Covers

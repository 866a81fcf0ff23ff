pub mod Bytes
pub mod Functions
pub mod Kinds
pub mod Names
pub mod Readings

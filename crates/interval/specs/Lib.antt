pub mod Faults
pub mod Pairs
pub mod Ordinary
pub mod Wraparound
pub mod Laws

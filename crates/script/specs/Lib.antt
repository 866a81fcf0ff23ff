pub mod Forms
pub mod Meanings
pub mod Sources
pub mod Tallies

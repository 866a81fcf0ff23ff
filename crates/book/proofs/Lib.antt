pub mod Promised
pub mod Moves
pub mod Judged
pub mod Turns

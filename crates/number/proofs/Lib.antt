pub mod Rank
pub mod Plain
pub mod Sum
pub mod Order
pub mod Arith

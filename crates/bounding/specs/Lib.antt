pub mod Runs
pub mod Record
pub mod Told
pub mod Laws
pub mod Walk
pub mod Numbers

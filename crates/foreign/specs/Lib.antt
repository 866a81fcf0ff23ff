pub mod Statuses
pub mod Values
pub mod Calls
pub mod Questions

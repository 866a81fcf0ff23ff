pub mod Case
pub mod Kinds
pub mod Shapes
pub mod Bounder
pub mod Cases

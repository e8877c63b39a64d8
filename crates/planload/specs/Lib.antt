pub mod Loads
pub mod Outcome

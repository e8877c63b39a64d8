pub mod Written
pub mod Same
pub mod Writes
pub mod Back

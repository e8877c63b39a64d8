pub mod Parts
pub mod Turns
pub mod Spliced
pub mod Replaced

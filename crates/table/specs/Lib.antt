pub mod Limits
pub mod Held

pub mod Cutting
pub mod Walking
pub mod Decimals
pub mod Turns

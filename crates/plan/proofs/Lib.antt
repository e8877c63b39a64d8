pub mod Snoc
pub mod Apart
pub mod Taken
pub mod Fits
pub mod Makes
pub mod Checks

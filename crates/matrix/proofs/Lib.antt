pub mod Parts
pub mod Ending
pub mod Printing
pub mod Short

pub mod Rows
pub mod Answers

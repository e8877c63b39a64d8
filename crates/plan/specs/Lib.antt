pub mod Declarations
pub mod Accepted
pub mod Made
pub mod Fit
pub mod Edits

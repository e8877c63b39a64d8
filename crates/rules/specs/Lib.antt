pub mod ActionLemmas
pub mod Ends
pub mod Decisions
pub mod Policies
pub mod Elsewhere

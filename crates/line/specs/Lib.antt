pub mod Line
pub mod Search
pub mod Laws
pub mod LabelLemmas

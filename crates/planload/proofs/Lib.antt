pub mod Loading
pub mod Only

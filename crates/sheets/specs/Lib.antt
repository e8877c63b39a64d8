pub mod Strips
pub mod Listed
pub mod Scopes
pub mod Tables
pub mod Walks

pub mod Texts
pub mod Layouts
pub mod Dots
pub mod Heads
pub mod Groups

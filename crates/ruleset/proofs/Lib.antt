pub mod Rights
pub mod Sizes
pub mod Told
pub mod Alike
pub mod Settling

pub mod Writing
pub mod Shown
pub mod Relabelled
pub mod Stages
pub mod Told
pub mod Backing
pub mod Plans

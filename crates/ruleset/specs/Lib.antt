pub mod Registers
pub mod Views
pub mod Packets
pub mod Compares

pub mod Parts
pub mod Turns
pub mod Buffers
pub mod Rooms
pub mod Writers
pub mod Measures
pub mod Cursors

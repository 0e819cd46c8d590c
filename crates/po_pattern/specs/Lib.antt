pub mod Rests
pub mod Seen
pub mod Parts
pub mod Terms
pub mod Whole
pub mod Readings

pub mod Asked
pub mod Sampled
pub mod Stats
pub mod Notes

-- What becomes of the misses, and what a worker's unit gives
pub mod Posted
pub mod Units

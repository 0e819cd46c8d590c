pub mod Operands
pub mod Limits
pub mod Taken
pub mod Heads
pub mod Indexes

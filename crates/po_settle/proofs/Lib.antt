-- The texts that reports tell of
pub mod Texts
-- Sorted in one way
pub mod Unique

-- The result of a canonical rule has its values
pub mod Filled
-- How tries follow each other
pub mod Going

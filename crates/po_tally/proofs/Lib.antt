-- Lists of which each element stands in another
pub mod Covers
-- A loop at its end
pub mod Ended
-- Tallies that are put to others
pub mod Joining
-- The tries of some blocks
pub mod Shortening

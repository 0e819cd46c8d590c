-- Hits by one rule, counted
pub mod Tallies
-- What a worker hands over of a unit
pub mod Briefs

-- Sums, and how many sorted texts a list may have
pub mod Sums
pub mod Distinct
-- What the works of all units tell, and their briefs
pub mod Reports
pub mod Telling
-- Briefs that are taken together
pub mod Summing
-- Hits that are looked up once more
pub mod Relooking
-- The rules that are written
pub mod Writing
-- The tries of all units, told by their rules
pub mod ByRules
-- How much was learned
pub mod Ending
-- The counts of a run
pub mod Counting
-- What a run makes of its works
pub mod Making
-- A table of rules may cross threads
pub mod Crossing

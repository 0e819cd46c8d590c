-- Lists by places
pub mod Lists
-- What every list of events keeps: scans, and then the whole state
pub mod Scanning
pub mod Kept
-- From one foreground, or one scan, to all
pub mod Lifting
-- Tries, ends of blocks
pub mod Trying
pub mod Ending
-- What an instance of a rule has
pub mod Values
-- A new core
pub mod Starting
-- The state of the code: its rules, its queue, what learners hold
pub mod Stating

-- plain states, events and what they do
pub mod Fores
pub mod Events
-- what every list of events keeps
pub mod Parts
-- the states of the code as plain states
pub mod Scans
pub mod Views
pub mod Went

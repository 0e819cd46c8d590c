-- All units, one after another
pub mod Each
pub mod Written
pub mod Slowed
mod Assigning
pub mod Refused
-- From a text to its output
mod Assembled
pub mod Complete
-- What the output is and does
mod OnlyOne
mod OneRules
mod OneOutput
mod Runs
pub mod Turning

-- Addresses that may meet
pub mod Agreeing
pub mod Meeting
-- The list that two instructions come to, transfer by transfer
pub mod Choices
pub mod Kept
pub mod Steps
pub mod InOrder
pub mod Lookups
pub mod Joint
-- Which registers it asks of, how many transfers it surely has, and terms that simplifying leaves as they are
pub mod Targets
pub mod Counted
pub mod Unchanged
-- What that list does, makes live and looks like
pub mod Alike
pub mod Keeps
pub mod Keeping
pub mod Reading
pub mod Carried
pub mod Symbols
pub mod Forms
-- One table read over two kinds of constants
pub mod ForwardFollows
pub mod JoinFollows
-- Maps that agree on what occurs
pub mod Mapped

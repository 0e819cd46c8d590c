-- Sums over the views of all passes, when one of them changes
pub mod Totals
-- Each step keeps the rule
pub mod Accounts
pub mod Tallies
-- What is left, when one pass has taken in all others
pub mod Drains

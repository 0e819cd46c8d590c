-- Walks through a pattern and transfers
pub mod Symbols
pub mod Behind
-- Questions and what fits
pub mod Answered
pub mod Fitting
-- Lists of transfers
pub mod Choices
pub mod Rest
pub mod Together

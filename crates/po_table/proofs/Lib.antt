-- Questions with their answers
mod Answered
-- Tables with one rule more
pub mod Lists

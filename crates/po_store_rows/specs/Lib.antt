-- A pair beside its rule
pub mod Lessons

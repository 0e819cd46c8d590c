pub mod EntryText
pub mod Words
pub mod Transfers
pub mod ListRules
pub mod Template
pub mod Reading
pub mod Writing
pub mod Kept

pub mod Lists
pub mod Flags
pub mod Operands
pub mod Turns
pub mod Starts
pub mod Fitting
pub mod EntryLines

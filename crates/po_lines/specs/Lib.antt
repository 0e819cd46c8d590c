pub mod Faults
pub mod Limit
pub mod Lines
pub mod Words
pub mod Leaves
pub mod Forms
pub mod NameList
pub mod Reading

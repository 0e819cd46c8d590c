pub mod Learnt
pub mod Passed
pub mod Summary

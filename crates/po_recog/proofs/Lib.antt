pub mod Lists
pub mod Walks
pub mod Agreed
pub mod Clobbers
pub mod Limits
pub mod Passed
pub mod Longest
pub mod Chains

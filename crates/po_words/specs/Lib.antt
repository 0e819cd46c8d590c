pub mod Finds
pub mod Modes
pub mod Commands
pub mod Values
pub mod Requests
pub mod Laws

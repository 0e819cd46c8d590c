pub mod Read
pub mod Spots
pub mod Order
pub mod Joint

pub mod Log2
pub mod Bitwise

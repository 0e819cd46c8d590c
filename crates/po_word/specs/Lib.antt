pub mod Words
pub mod Exprs
pub mod Views
pub mod Bits

pub mod Regs
pub mod Texts
pub mod Templates
pub mod Fits

-- Names of a letter and a number
pub mod Numbered
-- What operations ask of the stack, the labels and the arguments
pub mod Running
-- A statement, statements, a unit
pub mod Parts
pub mod Samples

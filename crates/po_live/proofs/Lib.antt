-- Registers that are held
pub mod Held
pub mod Keys
pub mod Outs
-- The blocks before a block
pub mod Preds
pub mod Graphs
-- Backwards through the instructions of a block
pub mod Moved
pub mod Instrs
pub mod Flags
-- From block to block, until nothing is due
pub mod Fuel
pub mod Spreads
pub mod Solved
-- The sets are those by paths
pub mod Paths
-- One list for a code
pub mod Listed

-- Intervals
pub mod Lists
pub mod Formed
pub mod LastReads
pub mod Intervals
-- The lowest free register
pub mod Turns
pub mod Standing
pub mod Apart
pub mod MachineRegisters
-- Placed code runs as the code
pub mod Boundary
pub mod PlacedReads
pub mod PlacedSteps
pub mod Controls
pub mod PlacedLeaving
pub mod Clobbered
pub mod PlacedBlocks
pub mod PlacedRuns

-- Lists
pub mod Onto
pub mod Distinct
pub mod Blockwise
-- What becomes of a pair
pub mod PairWith
pub mod PairAhead
pub mod Longest
pub mod Sound
pub mod Targets
pub mod Dead
-- The scan: where it stands, its steps, and that it ends
pub mod Places
pub mod Written
pub mod Standing
-- The marks of the pairs that stayed
pub mod Marks
pub mod MarksHere
pub mod MarksWritten
pub mod Passing
pub mod Steps
pub mod Work
pub mod Over
pub mod Passes
pub mod OnlyOne
-- The form of the code that passes make
pub mod Keeping
pub mod Named
pub mod Virtuals
pub mod Straight
pub mod Forms
pub mod KeptForm
-- Passes make nothing live
pub mod LivenessEndings
pub mod LivenessFlow
pub mod LivenessPass
pub mod LivenessCode
pub mod LivenessLast
pub mod LivenessPasses
-- Passes keep runs
pub mod RunsRead
pub mod RunsReplace
pub mod RunsWithin
pub mod RunsLeave
pub mod RunsBlocks
pub mod RunsStart
pub mod RunsPasses

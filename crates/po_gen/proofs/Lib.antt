-- Rules are learned
pub mod RulesLearnt
-- What a block and a code try is learned
pub mod Passing
-- Units are counted
pub mod Counting

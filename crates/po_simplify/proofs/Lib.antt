pub mod Acts
pub mod Folds
pub mod Follows
pub mod Instances
pub mod Leaves
pub mod MoveFollows
pub mod PlusStages
pub mod Worths

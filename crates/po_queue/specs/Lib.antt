-- The rules of what the queue holds and of how many items were put
pub mod Balance
pub mod Count
-- What contracts see of a queue and of its passes
pub mod Passes
pub mod Gathered

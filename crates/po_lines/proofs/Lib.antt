-- Names
pub mod NameSet
pub mod NameLaws
-- Numbers
pub mod NumberLaws
-- Lines and their words
pub mod LimitLaws
pub mod LineCuts
pub mod SpanBounds
pub mod FirstWords
pub mod WordLaws
-- Readers: results, and the turns of their loops
pub mod Results
pub mod Turns

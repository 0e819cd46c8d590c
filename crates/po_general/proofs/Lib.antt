-- values put into holes, continued to all holes; what stands in a shape's result
pub mod Filling
pub mod Standing
-- what becomes of a pair is what becomes of its shape, with the values put in
pub mod Fills
-- the questions that are kept
pub mod Questions
-- the rule of a pair is canonical, its holes have values, and the code makes it
pub mod Rules
pub mod Filled
pub mod Made

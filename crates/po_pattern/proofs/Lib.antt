-- The frames that are open, and so many parts more
pub mod InnermostFirst
pub mod Steps
-- What was read where a part, or a whole term, stands: its places, what was seen, and that it took a byte
pub mod Told
pub mod Leaves
pub mod Layers
pub mod Parts
pub mod Terms

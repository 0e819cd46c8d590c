-- What briefs tell of, and what those of all units hold together
pub mod Told
-- Hits that are looked up once more
pub mod Relooked
-- The rules that are written
pub mod Rules
-- What the passes and shares of threads come to
pub mod Ended
-- The counts of a run
pub mod Counts

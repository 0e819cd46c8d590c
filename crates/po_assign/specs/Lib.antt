pub mod Reads
pub mod Spans
pub mod Places
pub mod Refusals
pub mod Numbered
pub mod PlacedRuns

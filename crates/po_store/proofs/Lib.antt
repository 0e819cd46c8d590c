-- What may cross threads
pub mod Crossing
-- Beginnings of one list
pub mod Fronts
-- A rule joins the history, the published list, and the log
pub mod Adding
pub mod Grows
pub mod Logs

-- Beginnings of lists of rules, as plain data
pub mod Beginnings
-- What a seat keeps through a turn, and what a worker's pass has put
pub mod Turns
pub mod Posting
-- Seats as they are at the start
pub mod Seating
-- What all workers gave, and what is left when all threads have ended
pub mod Ranges
pub mod Backs
-- What may cross threads
pub mod Crossing

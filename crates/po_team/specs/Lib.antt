-- What the seats of learners keep
pub mod Seats
-- What contracts see of a way to the rules, and of a post
pub mod Ways
-- What a worker gives, and what it puts into the queue
pub mod Works
-- What is left when all threads have ended
pub mod Ends

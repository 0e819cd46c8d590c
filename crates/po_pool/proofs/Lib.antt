-- Places of a list, what a worker has done, and what the first workers have
pub mod Places
pub mod Throughs

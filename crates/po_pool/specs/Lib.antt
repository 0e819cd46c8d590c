-- What workers and learners give back
pub mod Worked

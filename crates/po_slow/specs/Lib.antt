pub mod KeepsEffect
pub mod Laws
pub mod Passes
pub mod States
pub mod Dead
pub mod Steps
pub mod Marks

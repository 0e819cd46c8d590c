-- two shapes with the same words are one
pub mod OneShape
-- what the walk writes is the words of the pair's shape
mod Joined

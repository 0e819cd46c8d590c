pub mod Seen
pub mod Found
pub mod Order
pub mod JoinedMoves
pub mod Least
pub mod KeepsEffect

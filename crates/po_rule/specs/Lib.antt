pub mod Adding
pub mod Posts

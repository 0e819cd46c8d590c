pub mod TermText
pub mod Reading
pub mod Gives
pub mod Form

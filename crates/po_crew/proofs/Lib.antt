-- Copies, what was posted, and block after block
pub mod Keys
pub mod Posting
pub mod Working

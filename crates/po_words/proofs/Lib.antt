-- The modes and their commands
mod Modes
mod Commands
-- The values that clap's matches have
mod Numbers
-- The request
pub mod Requests
mod Examples

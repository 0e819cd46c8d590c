-- The history, and which machine a store's name has where nothing picks it
pub mod Histories
pub mod Names
-- What is published, and what the publisher keeps
pub mod Published
pub mod Logged

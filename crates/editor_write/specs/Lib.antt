-- Definitions that the contracts of `editor_write` cite.
pub mod Requests
pub mod Starts
pub mod Steps

-- Definitions that the contracts of `editor_walk` cite.
pub mod Components
pub mod Counted
pub mod Landings
pub mod Levels
pub mod Lookups
pub mod Seen
pub mod Steps
pub mod Tasks

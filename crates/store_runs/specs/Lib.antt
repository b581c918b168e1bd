-- Definitions that the contracts of `runs` cite.
pub mod Digits
pub mod Find
pub mod Moves
pub mod Runs

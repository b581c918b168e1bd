-- Definitions that the contracts of `taken` cite.
pub mod Taken

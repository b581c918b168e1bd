-- Definitions that the contracts of `writes` cite.
pub mod Writes

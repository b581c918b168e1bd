-- Definitions that the contracts of `adapter` cite.
pub mod Reads

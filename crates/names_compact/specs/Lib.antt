-- Definitions that the contracts of `names_compact` cite.
pub mod Compact
pub mod Entries
pub mod Judge

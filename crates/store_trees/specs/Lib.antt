-- Definitions that the contracts of `trees` cite.
pub mod Trees

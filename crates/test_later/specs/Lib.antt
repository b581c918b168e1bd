-- Definitions that the contracts of `test_later` cite.
pub mod Listed

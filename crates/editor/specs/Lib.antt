-- Definitions that the contracts of `editor` cite.
pub mod Edited
pub mod Lent
pub mod Looks
pub mod Roots

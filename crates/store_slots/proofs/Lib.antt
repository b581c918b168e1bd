-- The laws that the proofs of several functions share.
pub mod Cached
pub mod Changes
pub mod Counts
pub mod Emptied
pub mod Gather
pub mod Marked
pub mod Relaid
pub mod Slots
pub mod StartLaws
pub mod Where
pub mod StoreLaws

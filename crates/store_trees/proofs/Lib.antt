-- The laws that the proofs of several functions share.
pub mod Gaps
pub mod Loads
pub mod NullLaws
pub mod Reading

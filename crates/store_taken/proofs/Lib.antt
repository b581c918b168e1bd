-- The laws that the proofs of several functions share.
pub mod Dropping
pub mod Ends
pub mod Keeping
pub mod Marking
pub mod Shown
pub mod Steps

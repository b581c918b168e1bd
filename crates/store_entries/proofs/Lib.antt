-- The laws that the proofs of several functions share.
pub mod EditLaws
pub mod PlaceLaws
pub mod StoreLaws

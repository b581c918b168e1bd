-- The laws that the proofs of several functions share.
pub mod DigitLaws
pub mod FindLaws
pub mod MoveLaws
pub mod RunLaws

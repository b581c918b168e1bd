-- The laws that the proofs of several functions share.
pub mod CursorLaws
pub mod EditLaws
pub mod LookLaws
pub mod RootLaws
pub mod SameAnswers

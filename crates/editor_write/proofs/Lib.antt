-- The laws that the proofs of several functions share.
pub mod AnswerLaws
pub mod BackLaws
pub mod BeginLaws
pub mod FailLaws
pub mod RequestLaws
pub mod SameAnswers
pub mod Theorems

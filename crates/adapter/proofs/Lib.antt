-- The laws that the proofs of several functions share, and that every answer is decided.
pub mod SameAnswers

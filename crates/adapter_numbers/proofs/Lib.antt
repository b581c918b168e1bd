-- The laws that the proofs of several functions share, and that every answer is decided.
pub mod AskLaws
pub mod NextLaws
pub mod NumberLaws
pub mod SameAnswers

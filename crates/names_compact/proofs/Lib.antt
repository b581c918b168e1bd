-- The laws that the proofs of several functions share.
pub mod AheadLaws
pub mod CompactLaws
pub mod CompactRawLaws
pub mod CompactSearchLaws
pub mod JudgeLaws
pub mod PackLaws
pub mod TwinLaws

-- The laws that the proofs of several functions share.
pub mod FairLaws
pub mod FinishLaws
pub mod LinkLaws
pub mod LinkRoom
pub mod OnwardLaws
pub mod ScanLaws
pub mod TurnLaws

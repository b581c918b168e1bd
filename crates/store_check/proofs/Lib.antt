-- The laws that the proofs of several functions share.
pub mod ChainLaws
pub mod ChildLaws
pub mod CountLaws
pub mod DecideLaws
pub mod Deciding
pub mod EachLaws
pub mod LaidLaws
pub mod MarkLaws
pub mod ParentLaws
pub mod SeenLaws
pub mod SlotLaws
pub mod StartLaws
pub mod StoredLaws
pub mod TagLaws
pub mod TakenLaws
pub mod Whole
pub mod WrittenLaws

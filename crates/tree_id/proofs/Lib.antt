pub mod EmptyTree
pub mod Laws
pub mod PartLaws
pub mod StreamLaws

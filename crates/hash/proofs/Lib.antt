pub mod Facts
pub mod Laws
pub mod StreamLaws
pub mod Vectors

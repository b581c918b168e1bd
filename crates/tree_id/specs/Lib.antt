pub mod Ids
pub mod Parts

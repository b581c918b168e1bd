-- What the theorems of `theorems` speak of.
pub mod Examples
pub mod Public
pub mod Runs

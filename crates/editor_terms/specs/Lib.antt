pub mod Answers
pub mod Edits
pub mod Ids
pub mod Objects
pub mod Tables

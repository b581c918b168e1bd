pub mod Answers
pub mod Examples
pub mod Mending
pub mod Pieces
pub mod Report
pub mod Slots

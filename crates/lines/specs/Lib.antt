pub mod Answers
pub mod Hex
pub mod Lines
pub mod Numbers
pub mod Places
pub mod Puts
pub mod Texts

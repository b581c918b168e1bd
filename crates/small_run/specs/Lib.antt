-- Definitions that the contracts of `small_run` cite.
pub mod Lesson
pub mod Puts

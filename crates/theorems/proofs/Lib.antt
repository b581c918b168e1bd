-- The theorems; `Theorems` is the index.
pub mod Accepted
pub mod AnyOrder
pub mod OneAnswer
pub mod OneNext
pub mod OneRequest
pub mod SameCounts
pub mod Theorems
pub mod WrongPrograms

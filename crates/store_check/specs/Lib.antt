-- Definitions that the contracts of `store` cite.
pub mod Decides
pub mod Laid
pub mod Lending
pub mod Once
pub mod Parents
pub mod Stored
pub mod Tag
pub mod Written

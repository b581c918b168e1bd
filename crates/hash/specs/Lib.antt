pub mod Blocks
pub mod Sha1
pub mod Sha256
pub mod Stream
pub mod Word

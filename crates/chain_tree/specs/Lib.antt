pub mod Digest
pub mod Entries
pub mod Blocks
pub mod Indexed
pub mod Timestamps
pub mod Told
pub mod Reading
pub mod Damages

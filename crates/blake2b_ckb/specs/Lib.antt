pub mod Compression
pub mod Hasher

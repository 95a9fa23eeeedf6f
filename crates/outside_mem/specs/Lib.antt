pub mod Memory
pub mod Stored
pub mod MemoryDisk
pub mod Remains

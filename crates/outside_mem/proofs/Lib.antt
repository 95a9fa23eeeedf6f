pub mod OtherBytes
pub mod Remains
pub mod MemoryDisk

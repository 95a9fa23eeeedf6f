pub mod Causes
pub mod Streams
pub mod Image
pub mod Disk
pub mod DiskLaws

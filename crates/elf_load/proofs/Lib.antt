pub mod Lists
pub mod Touching
pub mod InMemory
pub mod Segments
pub mod Allocating
pub mod ElfLaws

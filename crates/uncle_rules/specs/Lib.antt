pub mod Embedded
pub mod Known
pub mod Linked

pub mod Ranges
pub mod Exits
pub mod RunLemmas

pub mod Parts
pub mod Fits
pub mod ListLemmas
pub mod BlockLemmas
pub mod Rows

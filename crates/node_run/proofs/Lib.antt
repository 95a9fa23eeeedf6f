pub mod Asked
pub mod RunLemmas
pub mod ListLemmas

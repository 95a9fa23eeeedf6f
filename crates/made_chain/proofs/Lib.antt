pub mod ItemLemmas
pub mod SessionLemmas
pub mod LiveCells
pub mod ImportLemmas
pub mod SoakLemmas

pub mod CellbaseLemmas
pub mod SealingLemmas
pub mod GrownLemmas
pub mod DraftLemmas
pub mod AssemblingLemmas

pub mod SumLemmas
pub mod StartLemmas
pub mod CommitLemmas
pub mod BranchLemmas
pub mod ReadLemmas
pub mod PartLemmas

pub mod ListLemmas
pub mod PlaceLemmas
pub mod KnownLemmas
pub mod LinkLemmas
pub mod BranchLemmas
pub mod WalkLemmas
pub mod RuleLemmas

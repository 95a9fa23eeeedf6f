pub mod KeptLemmas
pub mod IdLemmas
pub mod ProposingLemmas
pub mod BranchLemmas
pub mod ProposedLemmas

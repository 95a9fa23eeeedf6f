pub mod SumLemmas
pub mod KeptLemmas
pub mod DueLemmas
pub mod StepLemmas
pub mod WalkLemmas

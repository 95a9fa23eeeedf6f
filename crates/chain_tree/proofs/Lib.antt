pub mod EntryLemmas
pub mod IndexLemmas
pub mod BlockLemmas
pub mod TimestampLemmas
pub mod ReadLemmas

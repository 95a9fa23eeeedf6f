pub mod One
pub mod Assembled
pub mod NumberLemmas
pub mod ByteLemmas
pub mod ItemLemmas
pub mod BlockLemmas
pub mod CanonicalLaws
pub mod InRange

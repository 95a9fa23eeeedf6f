pub mod ItemLemmas
pub mod WordLaws
pub mod StatusLaws
pub mod ReplayLemmas
pub mod HeaderLemmas
pub mod GeneratedLemmas

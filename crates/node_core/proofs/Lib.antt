pub mod DecidingLemmas
pub mod OwnLemmas
pub mod SightLemmas

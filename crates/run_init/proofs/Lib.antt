pub mod InitLemmas

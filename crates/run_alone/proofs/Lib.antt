pub mod StandaloneLemmas

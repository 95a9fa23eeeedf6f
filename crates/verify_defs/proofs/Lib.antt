pub mod Taken
pub mod Differences
pub mod Causes
pub mod FaultLemmas

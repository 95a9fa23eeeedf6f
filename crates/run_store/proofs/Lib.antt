pub mod DiskLemmas
pub mod KeepLemmas
pub mod LookLemmas
pub mod RecordLemmas
pub mod DamageLemmas

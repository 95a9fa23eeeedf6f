pub mod Log
pub mod Rest
pub mod LogLaws
pub mod Snapshot
pub mod SnapshotLaws

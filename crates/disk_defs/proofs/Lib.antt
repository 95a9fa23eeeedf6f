pub mod Records
pub mod Contents
pub mod Resting
pub mod Stopping
pub mod Fields
pub mod SnapshotLaws
pub mod StayLaws
pub mod AreaLaws

pub mod Store
pub mod JoinLaws
pub mod StoreLaws
pub mod EditionLaws
pub mod Migration
pub mod SnapshotLaws
pub mod JoinedLaws
pub mod ExtLaws

pub mod Commits
pub mod Genesis
pub mod Rows

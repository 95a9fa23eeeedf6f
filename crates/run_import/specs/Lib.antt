pub mod Watching
pub mod Import

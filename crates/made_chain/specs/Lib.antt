pub mod Sessions
pub mod Soak

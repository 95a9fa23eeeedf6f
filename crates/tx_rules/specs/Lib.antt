pub mod Own
pub mod At
pub mod Copying
pub mod Members
pub mod Outcome
pub mod Reading
pub mod Seen
pub mod Steps

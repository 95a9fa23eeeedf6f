pub mod Own
pub mod Paid
pub mod Starts
pub mod Reading

pub mod Actions
pub mod Finding
pub mod Answering
pub mod Running

pub mod Reading
pub mod Words
pub mod Finding
pub mod Showing
pub mod Asking

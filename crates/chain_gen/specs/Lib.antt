pub mod Known
pub mod Headers
pub mod Content
pub mod Walk

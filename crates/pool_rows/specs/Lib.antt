pub mod Header
pub mod Block

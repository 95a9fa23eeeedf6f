pub mod Form
pub mod Blocks
pub mod Laws

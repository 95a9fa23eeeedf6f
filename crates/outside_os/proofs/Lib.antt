pub mod Transfers
pub mod Reaching

pub mod Running
pub mod Extension
pub mod Lending

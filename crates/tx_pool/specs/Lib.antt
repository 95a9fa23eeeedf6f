pub mod Assembling
pub mod Draft
pub mod Sealing

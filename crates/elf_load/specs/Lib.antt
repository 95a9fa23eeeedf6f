pub mod Judging
pub mod Placing
pub mod Loads
pub mod Laws

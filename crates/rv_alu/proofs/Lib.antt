pub mod Wrapping
pub mod Products
pub mod Halves
pub mod Dividends

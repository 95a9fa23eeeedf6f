pub mod Text
pub mod Digits
pub mod Reading
pub mod ByKeys

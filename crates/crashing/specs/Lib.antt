pub mod Arming

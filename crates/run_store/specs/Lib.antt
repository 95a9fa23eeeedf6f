pub mod Keeping
pub mod Damage

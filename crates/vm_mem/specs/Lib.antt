pub mod Pages
pub mod Paged
pub mod Kept
pub mod Slots
pub mod Laws

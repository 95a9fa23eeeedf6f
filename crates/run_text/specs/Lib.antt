pub mod Items
pub mod Whole
pub mod Output
pub mod Store
pub mod Words

pub mod Balance
pub mod Index
pub mod Follow

pub mod Fitting
pub mod Showing
pub mod Shown
pub mod Grouping
pub mod Locating
pub mod Places
pub mod Lookups
pub mod Running

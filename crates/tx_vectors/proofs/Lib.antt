pub mod Rated

pub mod Lines
pub mod Asks
pub mod Answers
pub mod Promise

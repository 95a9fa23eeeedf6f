pub mod Start
pub mod Size
pub mod Assembly
pub mod Laws

pub mod Start
pub mod Heights
pub mod Chain
pub mod Laws
pub mod Paid
pub mod GenesisLaws
pub mod GenesisStart

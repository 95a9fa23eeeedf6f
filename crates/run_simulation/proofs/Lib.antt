pub mod SimulationLemmas

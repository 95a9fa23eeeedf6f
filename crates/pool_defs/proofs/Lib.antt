pub mod GrowthLemmas
pub mod StepLemmas
pub mod RulesLemmas
pub mod ItemLemmas
pub mod AssemblyLaws
pub mod JoiningLaws

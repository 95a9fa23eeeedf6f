pub mod AssemblingLemmas
pub mod AssemblyLemmas
pub mod QuestionLemmas
pub mod Statuses

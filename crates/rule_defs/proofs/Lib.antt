pub mod NumberLemmas
pub mod FirstBroken
pub mod WindowLaws
pub mod FeeLaws
pub mod PartLaws
pub mod DaoLaws

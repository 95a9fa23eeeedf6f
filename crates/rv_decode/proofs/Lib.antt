pub mod RegisterForms
pub mod WholeWord
pub mod FullForms
pub mod CompressedForms

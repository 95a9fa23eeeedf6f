pub mod CanonicalLaws
pub mod DecodedTexts

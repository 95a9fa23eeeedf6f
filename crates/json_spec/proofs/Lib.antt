pub mod Spans
pub mod Walks
pub mod Epochs
pub mod Objects
pub mod BytesLaw

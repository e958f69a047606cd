pub mod PartialCode
pub mod Pairs
pub mod Indices
pub mod Answers

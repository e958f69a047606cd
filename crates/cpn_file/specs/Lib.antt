pub mod Spaces
pub mod PointerTexts
pub mod Reading
pub mod TextLines
pub mod Refusals
pub mod FaultLines
pub mod Reads
pub mod Answers

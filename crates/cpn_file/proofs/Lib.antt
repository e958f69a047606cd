mod LoadedDocuments
mod ReadBytes
pub mod LoadedParts
pub mod WellRead

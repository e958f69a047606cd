pub mod AcceptedModels
mod LoadedDocuments
mod ReadModels
mod ReadyModels
pub mod WellModels
mod Rows

pub mod AlikeEdits
mod AlikeNets
mod CheckedEdits
pub mod EditedNets
pub mod KeptNets
mod MadeEdits
mod NetTransitions
mod OneReading
mod ReadEdits
mod Rows

mod ListFacts
mod CheckedTexts
mod DeclaredLists
mod PlaceColours
mod Bindables
mod ArcEnds
mod JoinedArcs
pub mod AcceptedTexts
mod AcceptedArcs
mod AcceptedTransitions
mod ReadNets
mod NumberedModules
mod CheckedModules
mod ModuleParts
mod ReadDocuments
mod OneReading
mod ClosedFunctions
mod NamedNets
mod FewArcs
mod ArcNodes
mod SoundNets
mod KeptRules
mod JoinedColours
mod WellNets
pub mod WellAccepted
mod DeclaredNames
pub mod AcceptedNames
mod OneTree

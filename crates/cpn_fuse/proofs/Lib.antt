pub mod InstanceTrees
mod ComingFirst
mod InstanceLaws
mod SeenHierarchies
mod WaitingParts
mod PlaceCounts
mod PlaceLaws
mod Members
mod JoinedPlaces
mod FewerPairs
mod LoopSteps
mod SeenPlaces
mod Rows

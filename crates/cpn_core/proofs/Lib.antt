pub mod ValueLevels
pub mod InscriptionLevels
pub mod ShapeLevels
mod Items
pub mod Shapes
mod NumberedItems
mod ShapeCounts
mod CappedCounts
mod ListedValues
mod ListedParts
mod ShapeOrder
mod ShapeMembers
mod SmallSets
pub mod SendableNets

mod ViewedLists
pub mod ChangedPlaces
pub mod DividedLists
pub mod RisingLists
pub mod DistinctLists
pub mod OneEnabledList
mod EnabledTransitions
pub mod OrderedLists
pub mod InsertIndexes
pub mod TokenOrder
pub mod Outcomes
pub mod UntimedPlaces
pub mod LeastTimes
mod UntimedNets
pub mod Subtraction
pub mod Addition
pub mod RicherMarkings
pub mod Needs
pub mod Terms
pub mod Markings
pub mod LegalSequences
mod Rows
mod WorkedNets
mod WorkedFunctions
pub mod SortedTokens
pub mod Stamps
mod ShortForms
mod ArithmeticRows
mod ListRows
mod PatternRows
mod MeaningRows
mod TermRows
mod FaultRows
pub mod Division
pub mod EarlierCalls
mod FirstFault
pub mod SmallColours
mod BindableRows
mod NameRows
mod Patterns
pub mod TokenCounts
pub mod OwnVariables
pub mod FewerItems
pub mod SoundElements
pub mod KeyedEntries
pub mod DelayBounds
pub mod PlaceCounts
pub mod PlaceStamps
pub mod BoundedMarkings
mod BoundRows
pub mod SameTokens
pub mod NumberTests
pub mod TruthValues
pub mod ListItems
pub mod ValueRows
mod IntegerRows

mod TakenItems
mod InstanceLists
mod InstanceNames
mod WrittenLists
mod AllItems
mod InstanceItems
mod OneFlatNet
mod InstanceLookups
mod PlaceLookups
mod PlacedInstances
mod JoinedColours
mod SoundFlatNets
mod ItemsThere
mod CompoundColours
pub mod NamedFlatNets
mod ShortFlatNets
mod ApartInstances
pub mod JoinedNames
mod FlatNameRows
mod InstancePaths
pub mod DistinctFlatNames
mod FlatMeanings
mod FlatConditions
mod NetPlaces
mod AcceptedFlatNets
mod AddedTokens
mod EqualGroups
mod SharedTokens
mod SharedMarkings
mod StartedMarkings
pub mod StartedWell
pub mod WellFlat

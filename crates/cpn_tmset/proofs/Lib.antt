mod RepeatedStamps
mod LatestStamps
mod KeptTokens
mod EntryStamps
mod TokenCounts
mod Errors
mod ChangedTokens
mod CoveredNeeds
pub mod CountedTokens
mod CopiedEntries
mod GrownLists
mod TakenNeeds
mod Thresholds
mod Ranks
mod EarliestTimes
mod NeedPlaces
mod TakenStamps
pub mod CarriedStamps
pub mod TakenAmong
mod SubtractedNeeds
mod MultisetNeeds
pub mod ChangeOrder
pub mod ToldChanges
mod ChangedRows
mod RoomLeft
mod Rows
mod SubtractedRows
mod CarriedRows
pub mod SendableMarkings

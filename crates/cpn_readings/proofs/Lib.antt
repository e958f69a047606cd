pub mod Readings
pub mod ReadLists
pub mod NumberedLists
pub mod ItemByItem
pub mod BrokenRules
pub mod RelatedReadings
pub mod RelatedLists

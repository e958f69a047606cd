mod SeenValues
mod NameLists
mod BrokenRules
mod ReadLists
mod ArcCounts
mod OneReading
mod FewArcs
mod WellNamed
mod StartedPhases
mod NamedRows
pub mod WellFormed
mod Rows
mod MonitorRows
mod PhaseRows
mod KeyRows

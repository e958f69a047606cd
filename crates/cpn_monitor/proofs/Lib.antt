mod FittingRows
mod KeptRows
mod KeptRuns
mod ListedMonitors
mod NotedRuns
mod Rows
pub mod ToldRuns
mod ValueViews
mod WatchedNets
pub mod SendableMonitors

mod Appearances
mod CoveredMSets
mod Rows

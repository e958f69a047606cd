pub mod Work
pub mod OutputsByWork
pub mod Views
pub mod SameJobs
pub mod Gathered
pub mod Same

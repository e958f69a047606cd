mod AddedTokens
mod ArcsLeft
mod NumberedWork
pub mod SendableJobs

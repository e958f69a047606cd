mod EditedSessions
pub mod RunSessions
pub mod MadeRuns
pub mod OneSession
pub mod StartedSessions
mod ModelSessions
mod StandingSessions
mod Rows

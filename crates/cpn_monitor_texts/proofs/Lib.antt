mod CheckedSteps
mod FirstOutside
pub mod FittingMonitors
mod NetTransitions
mod OneReading
mod Rows
pub mod ValuesOver

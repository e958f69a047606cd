-- texts
pub mod Texts
-- the grammar
pub mod Patterns
pub mod Inscriptions
pub mod Phrases
pub mod Declarations
pub mod Guards
pub mod Delays
-- what a parser answers
pub mod Parses
-- reading from left to right: what is open, what was read, and what completes it
pub mod Faults
pub mod Unread
pub mod Progress
pub mod OpenForms
pub mod OpenViews
pub mod Completions
pub mod ReadForms
pub mod Joints
pub mod Steps
pub mod Readings
pub mod OpenPatterns
pub mod OpenPatViews
pub mod PatternCompletions
pub mod ReadPatterns
pub mod PatternSteps
pub mod PatternReadings
pub mod Fragments
pub mod Endings

pub mod Partials
mod Instances
pub mod Numbers
pub mod Guards
mod NeverStuck
pub mod LastingPlans
mod PatternValues
mod TermTokens
mod TrueGuards
pub mod CoveredBindings
pub mod FittedMatches
pub mod OrderlyStages
pub mod Ends
pub mod WholeBindings
mod AllEnds
pub mod ApartEnds
pub mod TransitionEnds
mod OwnValues
mod ReachedEnds
mod OnePlan
pub mod CountedTries
pub mod PinnedStages
pub mod PinnedEnds
pub mod CountedPinned
pub mod NeededTerms
pub mod StandingValues
mod FullRows
mod PinnedRows

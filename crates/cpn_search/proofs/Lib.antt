mod ValuesOfTokens
mod TrialSteps
pub mod LeastTimes
mod EnabledBelow
mod KnownTransitions
mod Transitions
mod SearchStates
pub mod FoundBindings
mod DifferentEnds
mod TurnedSearches
mod BindingOrder
mod TurnSteps
mod TriedPlans
mod PlanSteps
mod PlannedTransitions
mod FoundElements
mod SharedParts
mod SolvingEquations
mod PlannedTrials
mod OnceFound
mod ListedValues
mod HeldTrials
mod FoundWith
pub mod SendablePlans

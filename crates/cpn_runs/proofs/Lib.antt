mod EachTwoItems
pub mod Sequences
mod CoveredElements
pub mod Cuts
pub mod GivenBackClaims
pub mod States
mod Elsewhere
mod ElsewhereClaims
mod OneJournal
pub mod OneRun
pub mod Journals
mod ShownMarkings
pub mod NoneGivenBack
pub mod BoundedStates
pub mod MeasuredStates
pub mod GrownRuns
pub mod NumberedJournals
pub mod Picks
mod TwoPlaces
pub mod CarriedTokens
pub mod FilledRuns
pub mod KeptPicks
pub mod FilledStates
pub mod HeldClaims
mod Rows
mod FilledRows
mod WorkedNet
mod TwoSeats
mod FaultyRuns
mod MovedRows
mod MeasuredRows
mod StopRows
mod StoppedRuns
mod GivenBackRows
mod SeatRows
mod GrownRows
mod PlayableRows
mod PhaseRows
pub mod SendableRuns

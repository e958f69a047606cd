mod BindingEnds
mod DueLaws
mod DueRows
mod KeptElements
mod MarkedItems
mod FirstItems
mod RankedItems
mod RisingSides
mod SummaryLaws
mod TurnedForks
pub mod SendableElements

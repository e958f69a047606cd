mod ChangeOrder
mod EachOnce
mod ToldItems
mod PutBackTokens
mod DifferingTokens
mod ExchangedStamps
mod StampLists
mod TouchedStamps
pub mod LeftMarkings
mod CopiedTokens
mod KeptLogs
mod StatusStandings
mod LogParts
pub mod JobNumbers
mod LogSteps
mod CarriedPast
mod TakenPicks
mod Completions
mod CutClaims
mod ClaimStandings
pub mod SendableLogs

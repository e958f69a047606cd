mod StringEnds
mod FrontTokens
mod Goes
mod StringPieces
mod LongestSigns
mod OneLexing
mod Rows
mod ByteRuns
mod FirstBytes
pub mod TokenCounts

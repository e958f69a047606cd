mod BytesApart
mod ElementsApart
mod GroupedTokens
mod JoinedTexts
mod JournalsTold
mod LineFeeds
mod MonitorRows
mod MonitorsApart
mod NamesApart
pub mod PrintableNets
mod PrintableRuns
mod ReportTexts
mod RunRows
mod ScheduleLines
mod ShapedText
mod SpelledNames
mod ValuesApart
mod Rows

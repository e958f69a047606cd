mod BoxedProbes
mod ReportLists
mod Rows
pub mod Tellings
mod ToldProbes

pub mod FirstOfNames
mod FoundThings
mod KeptNumbers
pub mod NameNumbers
mod Rows

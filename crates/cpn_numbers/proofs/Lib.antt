pub mod ListedNumbers
mod TurnedLists
mod Rows

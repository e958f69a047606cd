mod Bindings
mod Heads
mod Innermost
mod NamesAlone
mod PartTypes
mod PatternForms
mod PatternFronts
mod TreeLevels

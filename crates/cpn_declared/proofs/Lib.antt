mod ConstructorNames
mod Entries
mod NewNames
mod TypeLevels

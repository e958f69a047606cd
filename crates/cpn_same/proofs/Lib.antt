mod ComparedLists
mod Rows
mod ConstructorLevels

mod CountedOccurrences
mod Rows

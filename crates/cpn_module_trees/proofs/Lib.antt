mod Parsings
mod NextTrees

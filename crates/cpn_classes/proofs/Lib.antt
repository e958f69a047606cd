mod Links
mod NewParents
mod NumberedTrees
mod Rows

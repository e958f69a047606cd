pub mod Parsing
pub mod Trees
pub mod ParsingViews
pub mod TreesViews

-- what the data of the program stand for
pub mod TypeViews
pub mod DeclsViews
-- what an answer says
pub mod Answers
-- what is declared, with one thing more
pub mod Additions

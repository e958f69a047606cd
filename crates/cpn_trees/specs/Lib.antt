-- the trees of texts
pub mod Trees
pub mod DeclTrees
pub mod DeclaredNames
pub mod DeclaredBounds
pub mod Depth
pub mod Shapes
-- the trees of the program as plain ones
pub mod PatViews
pub mod PatForms
pub mod AstViews
pub mod ParsedViews

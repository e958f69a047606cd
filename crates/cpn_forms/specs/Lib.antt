-- what the data of the program stand for
pub mod ScopeViews
pub mod ContextViews
pub mod TypedViews
pub mod LookupViews
pub mod FormViews
pub mod CalledViews
pub mod BoundViews
-- the rules of operators and of calls, taken apart
pub mod Operators
pub mod Calls

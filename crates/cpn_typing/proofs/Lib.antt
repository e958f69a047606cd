mod Outcomes
mod SameTypes
mod NamesKept
mod PatternsFit
mod Operands
mod Meanings
mod RulesKept
pub mod Acceptance
mod ColourTypes
pub mod Functions
pub mod LeastBindable
pub mod BindableAnswers
mod TermsOfForms
mod AcceptedMultisets
mod BothSides
mod NamesDeclared
mod SetsDeclared
pub mod Consistent
pub mod DistinctDeclared
pub mod ShortDeclared
pub mod MeaningsInNets
mod DeclarationRows
mod DeclaredNetRows
mod FunctionRows
mod ArcRows
mod WorkedNames
mod EmptyListRows
mod OperatorRows
mod CaseRows
mod NameRows
mod ContextRows
mod BindableRows
pub mod MeaningfulTransitions
pub mod Answered
pub mod Bindings
pub mod Grown
mod AcceptedSides
pub mod SolvableTransitions

-- transitions whose parts are checked
pub mod Transitions
-- inscriptions read as binding terms
pub mod TermForms
-- equations of a guard, and which variables are known
pub mod Equations
pub mod Known

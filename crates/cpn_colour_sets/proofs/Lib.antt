mod AlternativeLists
mod Bodies
mod Components
pub mod GrownDeclared
mod NameLists
mod OneAlternative

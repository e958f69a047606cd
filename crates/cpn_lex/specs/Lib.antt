pub mod Fronts
pub mod Lexis
pub mod Lookup
pub mod Pieces
pub mod Refusals
pub mod Symbols
pub mod Token
pub mod Tokens

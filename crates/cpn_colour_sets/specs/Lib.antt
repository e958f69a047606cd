-- several names at a time
pub mod Kinds
-- what an answer says of a body, and of the alternatives of a union
pub mod Bodies
pub mod Alternatives
pub mod ColouredNames

pub mod Joined
pub mod Numbering
pub mod OneNumbering
pub mod Trees
pub mod JoinedPairs
pub mod ClassCounts

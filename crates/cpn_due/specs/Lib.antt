pub mod Due
pub mod DueCode
pub mod Marked
pub mod Sides
pub mod Trees

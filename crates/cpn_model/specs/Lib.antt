pub mod Reading
pub mod Models
pub mod Answers
pub mod Views
pub mod Lines

pub mod Sessions
pub mod Standing
pub mod Answers

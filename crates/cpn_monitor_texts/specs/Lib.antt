pub mod Reading
pub mod Named
pub mod Variables
pub mod Texts
pub mod Checked
pub mod Accepted
pub mod Answers

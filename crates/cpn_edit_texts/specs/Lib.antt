pub mod Edits
pub mod Reading
pub mod Texts
pub mod Measured
pub mod Checked
pub mod Ready
pub mod Answers
pub mod Views

pub mod Reading
pub mod ItemByItem
pub mod Rules
pub mod Relations

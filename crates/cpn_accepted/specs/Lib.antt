pub mod Nets
pub mod Views
pub mod AsWritten
pub mod Completed

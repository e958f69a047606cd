pub mod Guards
pub mod Summed
pub mod Needs

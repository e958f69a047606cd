pub mod Boxed
pub mod Reported
pub mod Told

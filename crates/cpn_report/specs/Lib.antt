pub mod Lines
pub mod MonitorText
pub mod Printable
pub mod Report
pub mod Schedule
pub mod Tells
pub mod Told
pub mod ValueText

pub mod Probing
pub mod Counted
pub mod ProbeViews

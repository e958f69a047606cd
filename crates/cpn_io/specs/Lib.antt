pub mod Outside
pub mod OverMemory
pub mod OverStreams

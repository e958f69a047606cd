pub mod EditedNets
pub mod Editable
pub mod Held
pub mod Shown

pub mod MSets
pub mod SameMSets
pub mod Views

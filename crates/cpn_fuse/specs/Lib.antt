pub mod Instances
pub mod PlaceInstances
pub mod Compound
pub mod Unfolded
pub mod Views
pub mod Waiting
pub mod Answers
pub mod FewerPairs

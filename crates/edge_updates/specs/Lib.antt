pub mod EdgeUpdate
pub mod Updates
pub mod Weighted
pub mod WeightedUpdates
pub mod inside

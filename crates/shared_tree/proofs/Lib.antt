pub mod Shallow
pub mod Forks
pub mod Rotations
pub mod Splits
pub mod Depths
pub mod Halves
pub mod Ascending
pub mod Stacks
pub mod Lowest
pub mod Lookups
pub mod CutMaps
pub mod ChangedMaps
mod Deepened
mod Rotated

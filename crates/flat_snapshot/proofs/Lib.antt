pub mod Numbered
pub mod Walks
pub mod Snapshots
pub mod Chunks
pub mod Putting
pub mod Following
pub mod Crossing

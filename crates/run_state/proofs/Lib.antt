pub mod Degrees
pub mod Parts
pub mod Named
pub mod Lengths
pub mod Inserted
pub mod Runs
pub mod Passed

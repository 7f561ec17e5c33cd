pub mod Operations
pub mod Merging

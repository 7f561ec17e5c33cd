pub mod Blocks
pub mod Chains
pub mod Steps
pub mod Rows
pub mod Gathered

pub mod Blocks
pub mod Chains
pub mod Degrees
pub mod Flags
pub mod Loops
pub mod Works
pub mod InOrder

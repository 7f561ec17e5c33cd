pub mod Outcome
pub mod Pieces
pub mod Refusal
pub mod Boundaries
pub mod Limits
pub mod Partition
pub mod Assignment
pub mod inside

pub mod Heads
pub mod Chunks
pub mod Parts
pub mod Outcome
pub mod Refusal
pub mod inside

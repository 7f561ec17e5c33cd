pub mod Refusal
pub mod Outcome
pub mod Runs
pub mod inside

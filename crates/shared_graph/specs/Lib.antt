pub mod Histories
pub mod Differences
pub mod Holding
pub mod Outcome
pub mod inside

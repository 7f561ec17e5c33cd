pub mod Changes
pub mod ChangedMaps
pub mod Balanced
pub mod Joins
pub mod Refusal
pub mod Outcome
pub mod inside

pub mod Vectors
pub mod EntryChanges
pub mod Changes
pub mod Lanes
pub mod Refusal
pub mod inside

pub mod Columns
pub mod EntryCuts
pub mod Operations
pub mod Spelling
pub mod Outcome
pub mod Refusal
pub mod Appending
pub mod inside

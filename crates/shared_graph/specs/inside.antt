pub mod Refusal
pub mod Histories
-- What the code is made of: no public contract cites these definitions.
pub mod Book
pub mod Publishing
pub mod Locked
pub mod Recent

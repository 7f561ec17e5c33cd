pub mod Refusal
-- What the code is made of: no public contract cites these definitions.
pub mod Attempts
pub mod Records

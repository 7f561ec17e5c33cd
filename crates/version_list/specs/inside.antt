pub mod Timeline
pub mod Refusal
-- What the code is made of: no public contract cites these definitions.
pub mod Held
pub mod Fields

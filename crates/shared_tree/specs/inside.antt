pub mod Outcome
pub mod Joins
pub mod ChangedMaps
-- What the code is made of: no public contract cites these definitions.
pub mod Shape
pub mod Halves
pub mod Opened
pub mod Pending

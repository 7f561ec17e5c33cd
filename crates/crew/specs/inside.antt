pub mod ClaimWord
-- What the code is made of: no public contract cites these definitions.
pub mod Claims
pub mod Cuts
pub mod Finding
pub mod Ordering
pub mod Workers

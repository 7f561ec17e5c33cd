pub mod Visible
pub mod Putting
pub mod NewMembers
-- What the code is made of: no public contract cites these definitions.
pub mod Targets
pub mod Omitting

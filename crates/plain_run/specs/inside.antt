-- What the code is made of: no public contract cites these definitions.
pub mod Seen
pub mod Chain
pub mod Flags
pub mod Degrees

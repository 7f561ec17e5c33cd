-- What the code is made of: no public contract cites these definitions.
pub mod Parsing
pub mod Stepping
pub mod Progress
pub mod Records

-- What the code is made of: no public contract cites these definitions.
pub mod Ends
pub mod Rows
pub mod Copies
pub mod FormerRun
pub mod Follower
pub mod Propositions

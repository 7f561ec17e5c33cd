pub mod Blocks
-- What the code is made of: no public contract cites these definitions.
pub mod LongLists
pub mod Joined
pub mod Walks
pub mod Steps
pub mod Runs

pub mod Parts
pub mod Chunks
-- What the code is made of: no public contract cites these definitions.
pub mod Cutting
pub mod Blocks
pub mod Spelled

pub mod Columns
-- What the code is made of: no public contract cites these definitions.
pub mod Decoding
pub mod Reading
pub mod Writing
pub mod Bytes
pub mod Merging

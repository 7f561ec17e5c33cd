pub mod Words
pub mod Sources
pub mod Ranges
pub mod Pulls
pub mod PieceRanges
pub mod Masked
pub mod Lets
pub mod EntryTests
pub mod Degrees
pub mod Columns
pub mod Blocks
-- What the code is made of: no public contract cites these definitions.
pub mod Propositions

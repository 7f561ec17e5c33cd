mod Masking
mod Merging
pub mod ColumnFolds
pub mod Deciding
pub mod EntryFolds
pub mod ListFolds
pub mod Shaped
pub mod WordBits
pub mod EntryWords
pub mod BlockWalks
pub mod RangeCuts
pub mod BlockColumns
pub mod FoundParts
pub mod Crossing
pub mod SourceWords
mod Chosen
mod Rows
pub mod DegreeTotals

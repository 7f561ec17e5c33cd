pub mod Local
mod Columns
mod Law
mod Splits
mod Sizes
mod Ends
mod Untouched
mod FollowedChanges
mod Marked
mod Merges
mod Chosen
mod Agreeing
pub mod Recorded
pub mod KeptChanges

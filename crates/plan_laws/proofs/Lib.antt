pub mod Sizes
pub mod Apart
pub mod Applies
pub mod Pairs
pub mod Sites
pub mod Counted
pub mod Splits
pub mod Whole
pub mod Places
pub mod FittingGroups
pub mod Around
pub mod AroundInstructions
pub mod Counting
pub mod LoopLaw
mod Machine
mod Plain
mod Words
mod CutWords
mod Values
mod Named
mod Bare
mod LineWords

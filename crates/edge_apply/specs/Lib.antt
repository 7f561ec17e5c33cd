pub mod Lists
pub mod Words
pub mod Contexts
pub mod Applied
pub mod Pieces
pub mod GatheredNumbers
pub mod ChangedSets
pub mod inside

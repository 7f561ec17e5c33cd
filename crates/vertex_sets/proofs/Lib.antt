pub mod Ascending
pub mod FlagMembers
pub mod BitMembers
pub mod WordMembers
pub mod StoredSets

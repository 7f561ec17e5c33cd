pub mod Division
pub mod EdgeApplies
pub mod Lists
pub mod Members
pub mod Reductions
pub mod VertexApplies
pub mod Wrapping
pub mod WrittenEntries

pub mod Ascending
pub mod Sets
pub mod Operations
pub mod Maps
pub mod MapOperations
pub mod inside

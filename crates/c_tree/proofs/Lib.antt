pub mod Chunking
pub mod Turns
pub mod Making
pub mod Rooted
pub mod EntryCuts
pub mod Cuts
pub mod Filling
pub mod Spelled

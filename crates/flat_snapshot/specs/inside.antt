pub mod Lists
pub mod Chunks
pub mod FlatEdges

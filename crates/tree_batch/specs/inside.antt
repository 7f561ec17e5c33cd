pub mod VertexBlocks
pub mod Sorted
pub mod Neighbours
pub mod Entry
pub mod Digraph
-- What the code is made of: no public contract cites these definitions.
pub mod BlockCuts
pub mod Forking
pub mod BatchColumns
pub mod Weights

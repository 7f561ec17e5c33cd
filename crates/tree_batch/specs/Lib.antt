pub mod Edge
pub mod Digraph
pub mod Neighbours
pub mod VertexBlocks
pub mod Outcome
pub mod Refusal
pub mod inside

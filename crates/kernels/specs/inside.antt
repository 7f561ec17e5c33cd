pub mod VertexBlocks
pub mod Shapes
pub mod ShapePairs
pub mod Kernels
pub mod Expressions
pub mod Columns
-- What the code is made of: no public contract cites these definitions.
pub mod MainRegisters
pub mod Propositions

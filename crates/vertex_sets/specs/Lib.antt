pub mod VertexSet
pub mod inside

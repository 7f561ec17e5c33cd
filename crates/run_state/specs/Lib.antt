pub mod State
pub mod SetUpdate
pub mod VertexKernels
pub mod View
pub mod inside

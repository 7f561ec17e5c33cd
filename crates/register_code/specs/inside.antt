pub mod VertexCode
pub mod FunctionCode
-- What the code is made of: no public contract cites these definitions.
pub mod Chain

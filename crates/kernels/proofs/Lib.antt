pub mod RegisterColumns
pub mod VertexRows
pub mod ShapeLaws
pub mod PairLaws
pub mod MainRegisters
pub use Rattle.register_code.proofs.Functions

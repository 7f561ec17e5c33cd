pub mod Plan
pub mod Parts
pub mod Outline
pub mod Lowered
pub mod Fusing

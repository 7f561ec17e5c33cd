pub mod World
pub mod Standing
pub mod Laws
pub mod Refusal
pub mod inside

pub mod Edge
pub mod inside

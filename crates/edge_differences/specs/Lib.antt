pub mod Listed
pub mod Named
pub mod inside

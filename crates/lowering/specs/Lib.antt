pub mod Text
pub mod inside

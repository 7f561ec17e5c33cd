pub mod Expressions
pub mod Lines
pub mod inside

pub mod Marks
pub mod inside

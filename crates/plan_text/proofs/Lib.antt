mod Rows
pub mod Spaces

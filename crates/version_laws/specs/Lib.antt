pub mod Keeping
pub mod Numbering

pub mod Spelling
pub mod Shown

pub mod Spelling
pub mod Runs

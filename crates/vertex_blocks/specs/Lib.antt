pub mod Blocks
pub mod Forms
pub mod Changes
pub mod inside

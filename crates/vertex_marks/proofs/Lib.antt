pub mod Naming
pub mod Setting

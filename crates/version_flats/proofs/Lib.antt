pub mod Following
pub mod Holds

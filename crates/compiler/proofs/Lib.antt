pub mod Offsets
pub mod Refused
pub mod Reduced

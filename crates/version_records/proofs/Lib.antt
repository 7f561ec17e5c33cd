pub mod Changing
pub mod Keeping
pub mod Maps

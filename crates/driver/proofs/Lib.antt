mod Compiling
mod Workers
mod FileRaces
pub mod Records

pub mod SetMembers
mod Turns
mod Unrolling
mod Ascending
pub mod Sound

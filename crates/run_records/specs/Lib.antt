pub mod Former
pub mod Recorded
pub mod inside

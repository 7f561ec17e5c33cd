pub mod Work
pub mod Sources
pub mod Rows
pub mod PushEnds
pub mod Degrees

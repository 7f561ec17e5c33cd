pub mod Beside
pub mod Recording
pub mod Crossing

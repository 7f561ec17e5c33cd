pub mod Refusal
pub mod Beside
pub mod Recorded

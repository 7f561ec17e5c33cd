pub mod Machine
pub mod Timeline
pub mod Prepared
pub mod Trims
pub mod Refusal
pub mod Kept
pub mod Since
pub mod inside

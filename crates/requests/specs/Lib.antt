pub mod Refusal
pub mod Asked
pub mod Forms
pub mod inside

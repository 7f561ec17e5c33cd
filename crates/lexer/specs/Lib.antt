pub mod Outcome
pub mod Refusal
pub mod Spelling
pub mod Tokens
pub mod inside

pub mod Commands
pub mod Refusal
pub mod Replies
pub mod Script
pub mod inside

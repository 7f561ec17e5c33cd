pub mod ReplyText
pub mod Sending
pub mod Refusal
pub mod inside

pub mod Bare
pub mod ReadBack
pub mod Text
pub mod inside

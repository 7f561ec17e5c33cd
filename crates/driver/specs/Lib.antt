pub mod Endings
pub mod Reading
pub mod Racing
pub mod Serving
pub mod inside

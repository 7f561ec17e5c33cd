pub mod Reading
pub mod Racing
pub mod Programs

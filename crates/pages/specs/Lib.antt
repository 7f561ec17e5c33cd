pub mod Vertices
pub mod Widths
pub mod Updates
pub mod inside

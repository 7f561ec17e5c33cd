pub mod Applies
pub mod Literals
pub mod ValueOffsets

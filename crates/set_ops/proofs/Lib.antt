pub mod Cutting
pub mod Laws
pub mod Combining
pub mod Crossing

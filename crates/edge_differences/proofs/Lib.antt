pub mod Unnamed
mod Indices
mod Naming

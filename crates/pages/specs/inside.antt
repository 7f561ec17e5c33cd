-- What the code is made of: no public contract cites these definitions.
pub mod Numbers
pub mod Weights
pub mod Packed
pub mod Entries
pub mod Index
pub mod Built

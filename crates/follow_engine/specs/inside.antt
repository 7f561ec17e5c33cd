-- What the code is made of: no public contract cites these definitions.
pub mod Among
pub mod Runs

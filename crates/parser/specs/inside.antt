pub mod Readers
pub mod Outcome
-- What the code is made of: no public contract cites these definitions.
pub mod Blocks
pub mod Declarations
pub mod Fronts
pub mod Literals
pub mod Plain
pub mod Views

pub mod ValueTree
pub mod Operands
pub mod Names
-- What the code is made of: no public contract cites these definitions.
pub mod Signs

pub mod Step
pub mod Declaration
pub mod Block
-- What the code is made of: no public contract cites these definitions.
pub mod BlockMeaning
pub mod Variables

pub mod Columns
pub mod EarlySources
pub mod KeptCut
pub mod Ranges
pub mod Pieces
pub mod inside

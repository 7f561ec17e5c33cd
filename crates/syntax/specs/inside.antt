pub mod SourceViews
pub mod Nesting
pub mod ExpressionViews
pub mod ExpressionReading
pub mod ExpressionFalls
pub mod ExpressionCodes
-- What the code is made of: no public contract cites these definitions.
pub mod Fits

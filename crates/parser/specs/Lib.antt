pub mod Outcome
pub mod Refusal
pub use Rattle.syntax.specs.SourceTrees
pub use Rattle.syntax.specs.SourceViews
pub mod inside

pub mod DeclarationLaws
pub mod EdgeWrites
pub mod Kept
pub mod SourceOffsets
pub mod Sources
pub mod StatementOffsets
pub mod StepOffsets
pub mod Walk

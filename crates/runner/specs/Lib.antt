pub mod EdgeMap
pub mod Position
pub mod Resting
pub mod Job
pub mod RunRefusal
pub mod HybridSources
pub mod inside
pub use Rattle.pull_engine.specs.KeptCut
